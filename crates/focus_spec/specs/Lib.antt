pub use Rattle.set_list.specs.SetList
pub use Rattle.path_model.specs.Graph
pub mod Younger
pub mod Focus
pub mod Fate
