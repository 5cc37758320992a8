pub mod Sweep
