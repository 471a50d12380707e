mod Standing
mod Taken
mod Splitting
mod Going
