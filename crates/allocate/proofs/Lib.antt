mod Fields
mod Digits
