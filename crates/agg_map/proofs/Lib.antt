pub mod Blocks
mod LinesOfMaps
mod MapsRead
mod TextsDefine
mod Worked
