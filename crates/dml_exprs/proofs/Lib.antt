mod Chains
mod Lists
mod Rules
