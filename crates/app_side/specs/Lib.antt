pub mod Asking
pub mod Crypto
pub mod Represents
pub mod Serving
pub mod Storeless
