pub mod LogTexts
pub mod Numbered
