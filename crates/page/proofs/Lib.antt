mod Behind
mod SoFar
