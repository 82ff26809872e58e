pub mod Forms
pub mod Deciding
pub mod Refusing
pub mod FormLaws
pub mod inside
