pub mod Choice
pub mod Coming
pub mod Tops
pub mod NewOnes
