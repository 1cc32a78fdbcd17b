mod Words
mod Taken
mod Looked
mod Counted
