pub mod kept_tails
