pub mod BoundNames
mod Examples
pub mod NumberedTexts
pub mod UrbNames
