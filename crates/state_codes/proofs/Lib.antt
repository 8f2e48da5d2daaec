mod Setting
mod Causes
mod Numbers
