pub mod UnionWalk
pub mod Meets
pub mod EndWalk
pub mod Spare
pub mod Matched
pub mod Bindings
pub mod Binding
pub mod Probing
pub mod Undone
pub mod Agreeing
pub mod ByNumber
pub mod Standing
pub mod Placed
pub mod Roles
pub mod Below
pub mod Joining
mod Examples
