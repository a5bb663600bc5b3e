mod Said
mod Fits
mod Size
mod StepSize
