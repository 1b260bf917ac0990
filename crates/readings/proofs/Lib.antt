mod Copying
mod Decoding
