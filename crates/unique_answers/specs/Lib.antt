pub mod UniqueLaws
