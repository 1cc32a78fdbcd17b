mod Answered
mod CookieText
mod Placed
mod Refused
