-- What is read back of a packed word. Rests on PackedWord, whose names it hands on.
pub use Rattle.words.specs.PackedWord.{pack, value_in, expanded_in, and_in, free_in, move_in, remembered_in, with_remembered, bit, View, view, freed, Bytes}
unfoldable pub use Rattle.words.specs.PackedWord.{evaluated, packed}
