pub mod Dumped
pub mod Made
pub mod Texts
pub mod WhyUnopened
