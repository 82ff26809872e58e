mod Below
mod Choosing
mod Parting
mod Worked
