-- First tags of types, found at the beginning of their routines.
pub mod Firsts
