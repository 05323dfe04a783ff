pub mod Digits
pub mod Listing
pub mod Overlay
pub mod Spellings
pub mod StepTexts
pub mod WrittenAs
pub mod Writes
pub mod Rewriting
