pub mod CaptureFiles
pub mod CaptureWords
pub mod CommandText
pub mod Texts
pub mod SelectionTexts
