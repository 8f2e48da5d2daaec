mod Delivering
mod DigitsOf
