mod Laying
mod Listing
mod Drawn
