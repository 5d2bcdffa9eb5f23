mod CommandLists
mod Within
mod Parts
mod Played
mod Read
pub mod Laws
