pub mod Cookies
pub mod Listening
pub mod Refusing
pub mod Serving
pub mod Answering
