-- Leases: what holds of those that sessions have in hand, and what a call of one session leaves of what the others guard.
pub mod Leases
pub mod Guards
