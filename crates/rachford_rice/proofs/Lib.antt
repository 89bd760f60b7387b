mod Ratios
mod Falling
mod Alone
