pub mod SetList
pub mod Rising
pub mod RisingSets
