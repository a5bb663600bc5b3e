pub mod Hash
pub mod Hmac
pub mod Tag
pub mod Digester
pub mod Mac
