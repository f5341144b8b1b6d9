pub mod Names
pub mod Items
pub mod Grammar
pub mod Machine
pub mod Lexed
pub mod Steps
