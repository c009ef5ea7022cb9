mod Numbers
mod Parts
mod Sizes
