mod Digests
mod Printing
mod Reading
