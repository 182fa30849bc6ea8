pub mod Places
pub mod Handing
pub mod Inboxes
pub mod Keeping
pub mod Vacating
