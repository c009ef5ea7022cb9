mod Kept
mod PutBack
mod Within
