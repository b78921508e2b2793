mod Places
mod Found
