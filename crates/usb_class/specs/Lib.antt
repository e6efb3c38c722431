pub mod Origin
pub mod Questions
pub mod Roles
pub mod Handler
pub mod Told
pub mod Core
pub mod InterfaceOps
pub mod Handlers
