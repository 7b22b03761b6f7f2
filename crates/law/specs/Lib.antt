pub mod DueClocks
