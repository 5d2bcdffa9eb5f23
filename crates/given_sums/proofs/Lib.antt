mod Given
mod Added
