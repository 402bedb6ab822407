mod ImageLists
mod KeptTails
