pub mod Brush
