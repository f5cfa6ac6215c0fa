pub mod CheckLists
