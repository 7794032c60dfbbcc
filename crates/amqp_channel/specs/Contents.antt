-- What the code keeps of a content under way, in the words of the model.
pub mod ContentView
pub mod DeferredView
pub mod GatheringView
