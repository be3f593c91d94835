pub mod StillOpen
