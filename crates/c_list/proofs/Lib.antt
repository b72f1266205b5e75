mod Handing
mod Laws
mod Claiming
