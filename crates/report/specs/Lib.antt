pub mod LogTexts
pub mod Texts
