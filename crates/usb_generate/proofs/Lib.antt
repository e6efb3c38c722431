mod Answered
mod Called
mod Examples
mod Passing
mod ReadBack
mod Said
mod Sizes
mod Streams
