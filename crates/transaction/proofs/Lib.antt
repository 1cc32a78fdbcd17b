mod Awaited
mod Copied
mod Counted
