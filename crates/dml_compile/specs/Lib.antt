pub mod Compiled
pub mod FormulasView
pub mod Laws
pub mod NamedFormulas
pub mod Objects
pub mod TreeKinds
pub mod Values
pub mod inside
