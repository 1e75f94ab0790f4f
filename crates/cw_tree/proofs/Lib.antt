mod Plain
mod Right
mod Fitting
