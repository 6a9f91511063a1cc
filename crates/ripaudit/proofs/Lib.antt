pub mod CaptureWordLemmas
pub mod SelectionTextLemmas
pub mod FileLemmas
