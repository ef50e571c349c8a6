mod NoFloats
mod Refusals
