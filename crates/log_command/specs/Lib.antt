pub mod Front
pub mod EventLines
pub mod Following
pub mod LogReport
pub mod PictureReport
pub mod Joining
