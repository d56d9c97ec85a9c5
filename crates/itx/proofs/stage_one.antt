-- The law of a call that no shape did.
mod Nobody
