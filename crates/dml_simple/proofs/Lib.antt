mod Lists
mod Rules
