-- What the code keeps of one channel, in the words of the model. Read after `Contents`.
pub mod StandingView
pub mod LifeView
pub mod ChannelView
